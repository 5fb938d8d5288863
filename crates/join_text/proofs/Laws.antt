pub mod JoinText
