-- The addresses of letters, and the number of free places in the mail that each leaves.
use Rattle.std.specs.Prelude.{ℕ, ◌*◌, ◌%◌, ℤ}
use Rattle.auc_letters.specs.declared.letter.Letter.{Letter}
use Rattle.auc_letters.specs.declared.out.To.{To}
use Rattle.auc_letters.specs.declared.out.Out.{Out}

-- a letter to the shard of a person or an object, for this number of shards
abbrev pub to_person : ℕ → ℕ → Letter → Out
to_person shards person letter = record { letter = letter; to = To.Person (person % shards); reserve = 0 }

abbrev pub to_object : ℕ → ℕ → Letter → Out
to_object shards object letter = record { letter = letter; to = To.Object (object % shards); reserve = 0 }

abbrev pub to_hub : Letter → Out
to_hub letter = record { letter = letter; to = To.Hub; reserve = 0 }

-- a price for a shard of the persons; it leaves room for two letters to each person
abbrev pub price_told : ℕ → ℕ → ℕ → ℤ → Out
price_told persons shard object price = record { letter = Letter.Price object price; to = To.Person shard; reserve = 2 * persons }
