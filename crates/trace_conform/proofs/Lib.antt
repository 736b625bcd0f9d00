mod CountedTicks
mod FirstCounts
mod Measuring
