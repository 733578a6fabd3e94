mod Found
mod Full
mod Opening
mod Turning
