-- words in quotes, as a shell reads them
mod Quoting
-- the same for their bytes
mod QuotedBytes
-- an option's item has only one set of parts
mod Items
-- operands, one after the other
mod Operands
-- the lines of a table
mod Lines
-- a table declares at most one list of options, or has only one error
mod Only
-- words have one answer
mod OneAnswer
-- no name in a table contains `=`
mod Plain
-- matches of readings, and the errors that failures report
mod Help
-- the canonical line of a script's words
mod Line
-- texts cut at a byte, with another in its place
mod Parts
-- what is offered at the last word
mod Offers
-- when an option may follow words
mod AtEnd
-- what a failed write has written is a prefix
mod Fronts
-- a shell that runs the code for options has their values
mod Shell
-- what a shell makes of the bytes that are written
mod Written
-- the code that sets variables, and the errors of their names
mod Assignments
-- the variables that are asked for, and matches if counts are ignored
mod Asked
-- the first element that passes a test
mod First
-- facts about values whose variant is known
mod Chosen
