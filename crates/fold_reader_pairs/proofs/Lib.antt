pub mod PairingLaws
