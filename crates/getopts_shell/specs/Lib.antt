-- What a caller has to trust, in reading order.

-- words in quotes, and what a shell makes of them
pub mod Quote
-- the table of options
pub mod Table
-- completion of a script's words
pub mod Completion
-- options as variables: what a shell does with commands, and the text that sets them
pub mod Variables
-- what the program answers
pub mod Program
-- Cited by private clauses alone.

-- what the code stores, and the values that it represents
pub mod Stored
pub mod StoredScript
