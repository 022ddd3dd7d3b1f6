-- The numbers of refusals (document 01, "When a call says no"; 18 and 19: document 02, (a); 28: a voice of another length). 0 stands for no refusal.
use Rattle.std.specs.Prelude.{ℕ, zero, suc, Bool, cond, Result, Ok, Err}
use Rattle.refusal.specs.declared.Refusal.{Refusal}
use Rattle.refusal.specs.declared.Refusal.TheVariants.{BookShort, BookSize, BookLength, BookCoefficient, BookFirstImpulse, BookDifference, BookSum, SamplesOrTop, StoreShort, Rate, Count, Position, VoiceLevel, VoiceFade, VoiceRate, VoicePosition, VoiceHistory, StoreLevelLength, VoiceTop, VoiceLength}

abbrev pub number : Refusal → ℕ
number BookShort = 1
number BookSize = 2
number BookLength = 3
number BookCoefficient = 4
number BookFirstImpulse = 5
number BookDifference = 6
number BookSum = 7
number SamplesOrTop = 8
number StoreShort = 9
number Rate = 10
number Count = 11
number Position = 12
number VoiceLevel = 13
number VoiceFade = 14
number VoiceRate = 15
number VoicePosition = 16
number VoiceHistory = 17
number StoreLevelLength = 18
number VoiceTop = 19
number VoiceLength = 28

-- the number of an answer
abbrev pub number_of : {A : Type 0} → Result A Refusal → ℕ
number_of (Ok _) = 0
number_of (Err r) = number r

-- n where its condition holds
unfoldable pub refuse : ℕ → Bool → ℕ
refuse n condition = cond condition n 0

-- the first of two numbers, or the second where the first is none
infixr 5 ◌otherwise◌
unfoldable pub ◌otherwise◌ : ℕ → ℕ → ℕ
zero otherwise n = n
suc m otherwise n = suc m
