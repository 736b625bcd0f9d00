pub mod FewColumns
mod FirstUsed
mod ListedSums
mod LowerUsers
mod NoIndirect
mod OnProcessors
mod Pushed
mod SteadyJobs
mod UsersBeside
