pub mod PasteCases
pub mod BuildCases
pub mod LoadCases
pub mod CatchCases
pub mod ArchiveCases
pub mod CommonCases
