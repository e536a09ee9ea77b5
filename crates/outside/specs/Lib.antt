pub mod Outside
pub mod Piece
pub mod Transfer
