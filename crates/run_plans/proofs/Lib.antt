pub mod PlanLaws
pub mod WorkLaws
mod OneReading
pub mod InputLaws
pub mod TraceLaws
pub mod ConformLaws
pub mod SimulationLaws
pub mod StudyLaws
pub mod RefusalInputLaws
pub mod RefusalLaws
mod SettleLaws
pub mod CommandLaws
pub mod ReplyLaws
pub mod RefusalReplyLaws
pub mod SettlementReplyLaws
mod SettledLaws
mod UpgradedLaws
pub mod RunLaws
pub mod TwiceLaws
pub mod JudgementLaws
pub mod CertInputLaws
pub mod SoundLaws
pub mod ShownLaws
pub mod RefusedLaws
pub mod BoundLaws
pub mod OnClocks
pub mod CheckedLaws
pub mod WritableRefusal
pub mod ConfirmedLaws
pub mod SetTextLaws
pub mod AuditLaws
pub mod JobsLaws
pub mod KeptLaws
pub mod Examples
mod CloserGain
mod OneOutcome
mod SameAnswers
