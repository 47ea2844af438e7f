-- How text reaches a sink through a buffer that keeps octets back.
use Rattle.std.specs.Prelude.{◌≡◌, ◌≤◌, ◌<◌, ◌+◌, ◌⊎◌, ℕ, List, [], ◌∷◌, ◌++◌, decimal, take, Option, Result, OnOk, OnErr}
use Rattle.fs_base.specs.{Outside.{Rose}, Sink.{Grew, GrewPart}}
use Rattle.fs_base.specs.declared.Sink as sink

-- What was pending and then the text have gone on: a front of them to the sink, and the rest is pending now.
pub record Goes (before now : Option (List ℕ)) (pending pending_now text : List ℕ) : Type 0 where
  pub flushed : List ℕ
  pub grew : Grew before now flushed
  pub whole : pending ++ text ≡ flushed ++ pending_now

-- The sink has taken a front of what was pending and the text, and no more follows: nothing is pending.
pub record Stops (before now : Option (List ℕ)) (pending pending_now text : List ℕ) : Type 0 where
  pub part : GrewPart before now (pending ++ text)
  pub empty : pending_now ≡ []

-- a front of the text went on
pub record GoesPart (before now : Option (List ℕ)) (pending pending_now text : List ℕ) : Type 0 where
  pub front : List ℕ
  pub rest : List ℕ
  pub parts : text ≡ front ++ rest
  pub goes : Goes before now pending pending_now front

-- a call on the outside failed: on the files, and a front of the text went on; or on the sink, and nothing is pending
abbrev pub Partly : (before now : Option (List ℕ)) (pending pending_now text : List ℕ) → Type 0
Partly before now pending pending_now text = GoesPart before now pending pending_now text ⊎ Stops before now pending pending_now text

-- The text has gone on, or the sink failed within it, as its count of faults tells.
pub record Sent {T E : Type 0} (faults faults_now : ℕ) (before now : Option (List ℕ)) (pending pending_now text : List ℕ) (result : Result T E) : Type 0 where
  pub later : faults ≤ faults_now
  pub ok : OnOk result (Goes before now pending pending_now text)
  pub err : OnErr result (Stops before now pending pending_now text × Rose faults faults_now)

-- so of a sink before and after a call; in a clause: `Sends S.Sink sink.old sink.new ..`
abbrev pub Sends : {S T E : Type 0} → sink.Ghosts S → (old new : S) → (pending pending_now text : List ℕ) → Result T E → Type 0
Sends of_sink old new pending pending_now text result =
    Sent (of_sink.faults old) (of_sink.faults new) (of_sink.written old) (of_sink.written new) pending pending_now text result

-- how the ten numbers from one on are written: the same digits, and the last one
pub record IsDecade (first : ℕ) (digits : List ℕ) (front : ℕ) : Type 0 where
  pub short : front < 8
  pub text : (digit : ℕ) → digit < 10 → decimal (first + digit) ≡ take front digits ++ ((48 + digit) ∷ [])
