mod Listing
mod Heads
mod Letter
mod Frames
mod Rest
