pub mod Laws
pub mod CommandAnswers
