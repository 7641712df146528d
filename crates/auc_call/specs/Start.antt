-- From which prices of a caller a run can start, and why it can't from others.
use Rattle.std.specs.Prelude.{ℕ, ◌==◌, not, Bool, ◌||◌, List, [], ◌∷◌, length, Option, Some, None, ℤ, pos, int_lt, if◌then◌else◌}
use Rattle.std.specs.Option.{option_map}
use Rattle.std.specs.List.{position}
use Rattle.auc_graph.specs.Problem.{Problem}
use Rattle.auc_claim.specs.Start.{AreStart, highest_start}
use Rattle.auc_direct.specs.Starts.{AreStartPrices}
use Rattle.auc_call.specs.declared.driver.Driver.{Driver}
use Rattle.auc_call.specs.declared.driver.Driver.TheVariants.{Direct, Messages}
use Rattle.auc_call.specs.declared.start.StartFault.{StartFault}
use Rattle.auc_call.specs.declared.start.StartFault.TheVariants.{NotSquare, OtherSize, Price}

abbrev pub is_outside : ℤ → Bool
is_outside price = int_lt price (pos 0) || int_lt highest_start price

-- the first object whose price isn't one to start from
abbrev pub outside : List ℤ → Option ℕ
outside prices = position is_outside prices

-- a direct run starts from a price for each object
abbrev pub prices_fault : ℕ → List ℤ → Option StartFault
prices_fault objects prices = if not (length prices == objects) then Some OtherSize else option_map (λ j. Price j) (outside prices)

-- and one by messages only where there are as many objects as persons
abbrev pub square_fault : Problem → List ℤ → Option StartFault
square_fault p prices = if not (p.objects == p.persons) then Some NotSquare else prices_fault p.objects prices

abbrev pub fault_by : Driver → Problem → List ℤ → Option StartFault
fault_by Direct p prices = prices_fault p.objects prices
fault_by Messages p prices = square_fault p prices

-- no prices at all are no start, and no fault
abbrev pub start_fault_by : Driver → Problem → List ℤ → Option StartFault
start_fault_by driver p [] = None
start_fault_by driver p (z ∷ prices) = fault_by driver p (z ∷ prices)

abbrev pub start_fault : Problem → List ℤ → Option StartFault
start_fault p prices = start_fault_by Direct p prices

abbrev pub start_fault_by_messages : Problem → List ℤ → Option StartFault
start_fault_by_messages p prices = start_fault_by Messages p prices

-- what a run of this kind starts from
abbrev pub CanStart : Driver → Problem → List ℤ → Type 0
CanStart Direct p prices = AreStartPrices p prices
CanStart Messages p prices = AreStart p prices
