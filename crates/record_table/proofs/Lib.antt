pub mod SurveyLaws
pub mod RoundTrip
pub mod OrderLaws
pub mod WriterLaws
pub mod TableLaws
pub mod StatedLaws
