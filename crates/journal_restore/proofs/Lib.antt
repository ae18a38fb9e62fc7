mod OnlyRead
mod Unfit
mod Records
mod Ends
mod Restarts
mod Openings
