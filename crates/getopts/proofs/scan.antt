-- How the code scans a word, an item, a cluster, and the line and its order up to a
-- place.
pub mod Words
pub mod Items
pub mod Next
pub mod One
pub mod Placed
