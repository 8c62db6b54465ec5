-- What only the faster way needs: no promise of `feed` uses it.
pub mod Bytes
pub mod Going
