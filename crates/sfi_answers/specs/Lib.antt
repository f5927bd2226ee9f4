pub mod private
pub mod Answers
pub mod FaultTexts
pub mod Building
pub mod Moving
pub mod Laws
