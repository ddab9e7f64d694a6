pub mod ChunkState
pub mod Chunk
pub mod InChunk
