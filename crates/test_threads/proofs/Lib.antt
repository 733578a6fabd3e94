mod Each
mod Sent
mod Written
