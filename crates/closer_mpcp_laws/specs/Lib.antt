pub mod CloserMpcpRows
