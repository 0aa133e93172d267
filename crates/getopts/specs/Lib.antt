-- What a caller has to trust, in reading order. Definitions that only private clauses cite come
-- last.
-- A name with a capital letter is a type, of data (`Item`) or of facts (`IsReading`); functions
-- begin with a small letter. In names, *held* means contained in matches, *lawful* valid, *fault*
-- an error of a command line, and *refused* rejected.
-- Comments say what names and types don't. The line above a definition is its summary, which
-- `rt lemma` prints. Details are at the parts of a definition that they are about.

pub mod Only
pub mod Names
pub mod Options
pub mod Declaring
pub mod Borrows
pub mod Fail
pub mod Reading
pub mod Matches
pub mod ReadingLaws
pub mod Accessors
pub mod Canon
pub mod Parse
pub mod Results
pub mod Reader
pub mod Theorem
pub mod Same
pub mod Wrap
pub mod Usage
pub mod UsageResults
pub mod Prelude
pub mod Step
pub mod Scan
pub mod Stored
