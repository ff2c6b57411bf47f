mod Pieces
mod MemMoments
mod Torn
mod MemFiles
