pub mod TreeFun
pub mod Makings
pub mod Applied
pub mod FunctionLaws
pub mod Funs
pub mod inside
