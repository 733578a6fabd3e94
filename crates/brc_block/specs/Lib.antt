pub mod Row
pub mod Pairs
pub mod Payload
pub mod Blocks
pub mod Lending
pub mod Lent_Keys
