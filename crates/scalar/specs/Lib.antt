pub mod Classes
pub mod Eval
pub mod EvalWorked
pub mod Laws
pub mod Lent
pub mod Typed
