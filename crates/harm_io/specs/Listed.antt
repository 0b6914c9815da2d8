-- The calls of a shelf and a sink in memory that are listed to fail.
use Rattle.std.specs.Prelude.{◌≡◌, ℕ, ◌==◌, Bool, false, IsTrue, List, [], ◌∷◌, take, if◌then◌else◌, Option, Some, None, IsSomeAnd, Result, Ok, Err, Vec}
use Rattle.std.specs.List.{list_any}
use Rattle.std.specs.declared.alloc.Global.{Global}
use Rattle.harm_io.specs.Sinks.{SinkState, appended}
use Rattle.harm_io.specs.declared.memory.Failing.{Failing}
use Rattle.harm_io.specs.declared.memory.MemoryShelf.{MemoryShelf}
use Rattle.harm_io.specs.declared.memory.MemorySink.{MemorySink}
use Rattle.harm_io.specs.declared.shelf.FetchFault.{FetchFault}
use Rattle.harm_io.specs.declared.shelf.FetchFault.TheVariants as fetch
use Rattle.harm_io.specs.declared.sink.PutFault.{PutFault}
use Rattle.harm_io.specs.declared.sink.PutFault.TheVariants as put

-- how many fetches a shelf has answered
abbrev pub fetches_of : MemoryShelf → ℕ
fetches_of shelf = shelf.calls

-- the fetches that are listed, by their numbers from 1
abbrev pub listed_fetches : MemoryShelf → List ℕ
listed_fetches shelf = shelf.failing.items

-- the fetch of that number is listed
abbrev pub is_listed : List ℕ → ℕ → Bool
is_listed listed number = list_any (λ n. n == number) listed

-- A fetch fails exactly where it has to, but for want of memory.
abbrev pub FailsWhere : Bool → Result (Vec ℕ Global) FetchFault → Type 0
FailsWhere has_to (Ok file) = has_to ≡ false
FailsWhere has_to (Err fetch.Failed) = IsTrue has_to
FailsWhere has_to (Err (fetch.TooLarge taken)) = has_to ≡ false
FailsWhere has_to (Err fetch.NoMemory) = Unit {0}

-- how many puts a sink has answered
abbrev pub puts_of : MemorySink → ℕ
puts_of sink = sink.calls

-- the puts that are listed, in the order of their listing
abbrev pub listed_puts : MemorySink → List Failing
listed_puts sink = sink.failing.items

-- how many bytes the last listing of the put of that number keeps, or what was found before
abbrev pub kept_from : Option ℕ → List Failing → ℕ → Option ℕ
kept_from found [] number = found
kept_from found (f ∷ fs) number = kept_from (if f.call == number then Some f.kept else found) fs number

-- A put fails exactly where it is listed, and then it keeps the bytes that its listing says, but for want of memory.
abbrev pub KeepsListed : Option ℕ → List ℕ → SinkState → SinkState → Result (Unit {0}) PutFault → Type 0
KeepsListed listed piece before now (Ok _) = listed ≡ None
KeepsListed listed piece before now (Err put.Failed) = IsSomeAnd listed (λ kept. now.taken ≡ appended before.taken (take kept piece))
KeepsListed listed piece before now (Err put.NoMemory) = Unit {0}
