mod Serving
mod Reading
mod Planned
mod Billing
mod Whole
