mod AskedAtHome
mod Beside
mod ByTask
mod ByUser
mod Held
