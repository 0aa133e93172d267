-- What is left in a loop: the last of the words that were left.
use Rattle.std.proofs.Common.{List, ◌∷◌, drop-drop, refl, rules}
use Rattle.getopts.specs.Reader.{AreLast}

pub last_all : {A : Type 0} (words : List A) → AreLast words words
last_all words = record { count = 0; is = refl }

pub last_after : {A : Type 0} (word : A) (words : List A) → AreLast words (word ∷ words)
last_after word words = record { count = 1; is = refl }

pub last_trans : {A : Type 0} {last words all : List A} → AreLast last words → AreLast words all → AreLast last all
last_trans {all = all} last words = search (rules, drop-drop)
