-- Lemmas that other crates may cite, by subject. Lemmas about a module of `src`, which only this
-- crate can cite, are in the folder of that module: `table.antt` lists those in `table`. Beside
-- them is a folder for each function whose proof needs a file; a method is in the folder of the
-- module that defines its type.
-- `Answers.antt` proves goals that the checker asks for, and `Invariants.antt` states the
-- invariants of loops. A loop's label, such as `'items`, names its goals. In most names of lemmas,
-- the part before `-` is the definition that the lemma is about (`IsAccepted-reading`); a name that
-- ends in `_lem` proves a law of readings or lines.
--
-- The proof of the main theorem uses the function `read` of `Results`, which reads words in steps
-- (`Step`). Each step reads one item, reads the tail, or finds an error.
-- 1. If words begin with a valid item, a step reads this item (`spelled_step`). So if words have a
--    reading, `read` returns it (`reading_read`), and there is no other (`only_reading`).
-- 2. If a word has an error, a step finds this error (`fault_step`). So there is at most one scan
--    error (`only_fault`), and if there is one, there is no reading (`no_reading`).
-- 3. Each step reads a valid item or a valid tail, or finds an error (`step_sound`), so UTF-8 words
--    have a reading or a scan error (`read_sound`).
-- 4. The code follows `read`. Each call of `Scanner::next` reads one option or free word, and keeps
--    that what was read is valid items, and perhaps the first flags of a cluster. It is called by
--    the loop of `scan` and, through `Reader::next`, by the caller's. What is next is an error of the
--    line, its tail, or one option or free word more (`IsNext`). So in `scan`, these items and flags
--    give what was found so far (`SoFar`), and `read` of the whole line is these items, followed by
--    `read` of the words that are left (`items_read`); and a line's trace has its order (`along`).
-- 5. A name without `=` ends at the first `=` of its word, so the content can be read back from a
--    canonical line (`content_in-canonical`).
-- Wrapping: if a run of words fits a row, each part of the run fits, too (`FitsIn-inside`), so no
-- breaking has fewer runs than a tight one (`no_fewer`).

pub mod Lists
pub mod Only
pub mod Errors
pub mod Joined
pub mod Reading
pub mod Stored
pub mod MainTheorem
pub mod OnLiterals
pub mod Examples
pub mod AddingCalls
pub mod Last
pub mod Traces
