pub mod DesignAnswers
