pub mod RecurrenceLaws
