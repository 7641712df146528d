-- The limits of the numbers of a script.
use Rattle.std.specs.Prelude.{ℕ, ℤ, pos}

-- boxes, and senders
abbrev pub most_boxes : ℕ
most_boxes = 1000

-- letters that wait, and a post's reserve
abbrev pub most_nodes : ℕ
most_nodes = 1000000

-- posts of a lane
abbrev pub most_posts : ℤ
most_posts = pos 1000000000000

-- an item, with either sign
abbrev pub most_item : ℤ
most_item = pos 1000000000000000000

abbrev pub most_calls : ℕ
most_calls = 1000000
