mod Whole
mod Stacking
mod Turning
