pub mod LibraryAnswers
