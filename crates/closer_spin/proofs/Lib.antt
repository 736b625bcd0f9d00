mod UsersThere
mod Told
