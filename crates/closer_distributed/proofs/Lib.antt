mod Away
mod FewRows
