-- characters, and texts without marks
pub mod Chars
-- the text of a word, and the bytes of a text
pub mod Texts
-- where the text of a word can be cut
pub mod Cuts
