mod Blocks
mod Files
mod HeadReading
mod NameReading
