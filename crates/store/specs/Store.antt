-- What every call is given: the two lent buffers. Document 01, "What is built".
use Rattle.std.specs.Prelude.{List, ℕ}

-- the MST and the XRF, each whole in a buffer
pub record Store : Type 0 where
  pub mst : List ℕ
  pub xrf : List ℕ

abbrev pub store : List ℕ → List ℕ → Store
store mst xrf = record { mst = mst; xrf = xrf }
