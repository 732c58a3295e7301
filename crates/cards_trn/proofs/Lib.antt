pub mod TrnLaws
pub mod TrnMeant
pub mod TrnParts
pub mod TrnReadBack
pub mod TrnAgain
