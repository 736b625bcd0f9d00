mod SpinVerdict
mod SpinChosen
mod SpinNow
pub mod SpinNextRow
mod UsersBeside
pub mod NoneFrom
pub mod FewRows
