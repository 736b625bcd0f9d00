mod Pieces
mod Parts
mod Places
mod Walks
