-- What a caller has to believe, in reading order.

-- the text of a word of any bytes, and the bytes of a text
pub mod Marks
-- properties of all words
pub mod Laws
