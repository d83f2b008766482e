mod Looping
mod Batches
