pub mod Face
pub mod Loop
pub mod Printing
pub mod Boarding
pub mod Links
pub mod Plans
pub mod Laws
