mod FreeSeats
mod Questions
mod Settled
