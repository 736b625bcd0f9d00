pub mod BusyWindows
