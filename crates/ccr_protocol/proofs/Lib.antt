pub mod RequestTexts
pub mod Lists
