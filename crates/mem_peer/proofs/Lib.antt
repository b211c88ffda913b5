mod MemAnswers
pub mod ReplyKinds
