pub mod BankLemmas
pub mod WordLemmas
