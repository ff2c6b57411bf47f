pub mod HexSignature
