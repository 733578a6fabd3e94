mod Lines_In
mod Runs
mod Line_Did
mod Plainly
mod Tries
mod Instructions_Led
mod Silent
mod Wants_Of
