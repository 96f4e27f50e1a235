mod Tallies
mod Pointed
mod Within
mod Whole
mod Stopped
