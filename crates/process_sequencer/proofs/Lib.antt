mod Shares
mod Tallies
mod Used
mod Growing
mod Billing
mod Still
