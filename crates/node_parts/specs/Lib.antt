pub mod Chunked
